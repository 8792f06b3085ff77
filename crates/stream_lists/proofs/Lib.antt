-- The laws of stream lists: read, written, and read back.
pub mod ListLaws
pub mod ListBounds
pub mod ListWriting
pub mod ListBack
pub mod ListKept
pub mod ListVectors
pub mod Told
pub mod Numbers
