-- How strings and names are written.
pub mod Room
pub mod Names
