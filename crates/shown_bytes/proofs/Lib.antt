-- What is shown of the form of a byte.
pub mod Reading
