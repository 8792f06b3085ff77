-- The laws of `decoder_collect`: plain values, for the functions' proofs.
pub mod Readiness
pub mod ReadyDeletes
pub mod Calls
