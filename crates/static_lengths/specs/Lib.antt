-- The static entries by the length of their names.
pub mod Lengths
pub mod Claim
