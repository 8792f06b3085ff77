-- The laws of finding a long code.
pub mod Longs
