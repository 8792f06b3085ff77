-- How much room a written block needs: the call's answer; then the field that reaches the bound.
pub mod Answers
pub mod Enough
pub mod Unknown
pub mod Reached
pub mod Example
pub mod Claim
