-- What the ways of the insert call leave.
pub mod Inserting
