-- What is taken from a block and written: a string, or a field.
pub mod Taking
