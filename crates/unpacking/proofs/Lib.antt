-- The laws of bits that wait, and of unpacking in turns.
pub mod Highest
pub mod Refills
pub mod Turns
pub mod Progress
