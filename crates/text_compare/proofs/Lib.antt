-- The laws of bytes compared by words.
pub mod Words
