-- Searches of the header table by name.
pub mod Names
