-- The laws of `perform`, for its functions' proofs.
pub mod Cases
