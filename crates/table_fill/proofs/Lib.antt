-- The laws of `table_fill`, for its functions' proofs.
pub mod Standing
