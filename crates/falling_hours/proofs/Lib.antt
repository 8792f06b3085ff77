-- Laws of the search for reports, and which of two is the later one.
pub mod Latest
pub mod Searching
