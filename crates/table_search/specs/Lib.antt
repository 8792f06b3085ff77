-- Searches of the header table.
pub mod Search
