-- The decoder's inserts.
pub mod Inserts
