-- The laws of `marks`: plain values, for the functions' proofs and the crates above.
pub mod Bits
pub mod Counting
pub mod Words
pub mod Clearing
pub mod Turns
