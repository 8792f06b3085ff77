-- What the contracts of `recording` cite.
pub mod Outputs
pub mod Words
