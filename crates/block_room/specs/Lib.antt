-- How much room a written block needs.
pub mod Room
pub mod Claim
