-- The laws of `table_rows`: plain values, for the functions' proofs and the crates above.
pub mod Stores
pub mod Rows
