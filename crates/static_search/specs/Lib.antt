-- Searches of the static table.
pub mod Search
pub mod Hash
pub mod Compared
pub mod Ends
