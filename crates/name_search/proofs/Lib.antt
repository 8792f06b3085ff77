-- The laws of `name_search`: plain values, for the functions' proofs and the crates above.
pub mod LowestRow
pub mod Serving
pub mod Pairing
