-- The laws of `table`: plain values, for the functions' proofs and the crates above.
pub mod Fresh
pub mod Steps
