-- Rows of the table in memory.
pub mod Rows
pub mod Account
