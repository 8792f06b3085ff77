-- The encoder's calls on memory and bytes.
pub mod Calls
pub mod Steps
