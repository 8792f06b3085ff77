-- Marks of streams in words.
pub mod Marks
