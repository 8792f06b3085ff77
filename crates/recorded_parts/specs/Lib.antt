-- How much a call is lent.
pub mod Lent
