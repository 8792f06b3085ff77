-- The laws of the block written.
pub mod Writing
