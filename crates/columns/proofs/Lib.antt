-- The laws of columns and of pieces.
pub mod Within
pub mod Pieces
pub mod Columns
-- for the proofs of the functions
pub mod Steps
