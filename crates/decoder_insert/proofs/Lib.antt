-- The laws of `decoder_insert`: plain values, for the functions' proofs.
pub mod Insertion
pub mod Naming
