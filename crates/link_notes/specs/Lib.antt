-- Sums of blocks, and where they are noted.
pub mod Notes
pub mod Parts
pub mod Sums
