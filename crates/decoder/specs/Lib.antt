-- The decoder's calls on memory and bytes.
pub mod Calls
