-- What words say.
pub mod Numbers
pub mod Counts
pub mod Words
