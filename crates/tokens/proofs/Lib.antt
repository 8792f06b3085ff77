-- The laws of `tokens`, for its functions' proofs.
pub mod Digits
pub mod Alike
pub mod Places
