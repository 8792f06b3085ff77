-- The encoder's horizons in memory.
pub mod Horizons
