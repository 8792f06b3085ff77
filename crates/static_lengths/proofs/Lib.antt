pub mod Selecting
pub mod Few
pub mod Compared
pub mod Claim
