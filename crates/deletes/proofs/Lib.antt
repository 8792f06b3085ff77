-- The laws of `deletes`: plain values, for the functions' proofs and the crates above.
pub mod Stored
pub mod Listing
pub mod Closing
