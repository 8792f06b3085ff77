-- When a string is there.
pub mod There
