-- The laws of `decoder`: plain values, for the functions' proofs.
pub mod Standing
pub mod Calling
pub mod Holding
