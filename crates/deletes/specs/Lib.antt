-- Deletes in memory.
pub mod Deletes
