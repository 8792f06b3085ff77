-- The laws of `decoder_read`: plain values, for the functions' proofs.
pub mod Instructions
pub mod Deletion
pub mod Calls
