-- The laws of `reports`, for its functions' proofs.
pub mod Telling
pub mod Judging
