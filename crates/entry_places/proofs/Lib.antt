-- The laws of `entry_places`: plain values, for the functions' proofs.
pub mod Locating
