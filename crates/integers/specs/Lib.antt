-- The numbered answers, and prefix integers.
pub mod Answers
pub mod Integer
