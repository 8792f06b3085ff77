-- The laws of writing packed bytes.
pub mod Writing
