-- The laws of `parts`: plain values, for the functions' proofs.
pub mod Turns
pub mod Given
