-- The laws of references entered, which change no choice.
pub mod Twice
pub mod Mentions
pub mod Entering
pub mod Choices
