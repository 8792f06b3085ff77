-- The laws of `memory`: plain values, for the functions' proofs and the crates above.
pub mod Order
pub mod Overlay
pub mod Places
pub mod Moving
pub mod Covering
pub mod Numbers
pub mod Sameness
pub mod Ends
pub mod Zeros
