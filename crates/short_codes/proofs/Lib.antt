-- The laws of the short codes.
pub mod Fronts
