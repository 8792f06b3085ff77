-- How many bytes things take on the wire.
pub mod Sizes
