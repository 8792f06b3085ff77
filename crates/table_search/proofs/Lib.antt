-- The laws of `table_search`: plain values, for the functions' proofs and the crates above.
pub mod Fields
pub mod Finding
pub mod Bisecting
pub mod Modelled
