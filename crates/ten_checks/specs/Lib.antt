-- Document 01's ten checks, on memory and bytes.
pub mod Checks
