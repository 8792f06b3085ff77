-- The one form of strings, instructions and blocks, where it is told which strings are packed.
pub mod Forms
pub mod Packed
pub mod Claim
