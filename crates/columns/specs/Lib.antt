-- Columns of numbers in memory, and memory made of pieces that stand one behind the other.
pub mod Columns
pub mod Pieces
