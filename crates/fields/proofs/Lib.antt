-- The laws of `fields`: reading, writing, and both ways between a list of fields and its bytes.
pub mod Lengths
pub mod Texts
pub mod Turns
pub mod Sizes
pub mod Inverse
pub mod Bounds
pub mod Again
pub mod Back
pub mod Forth
pub mod Lists
pub mod Walk
pub mod Examples
pub mod Numbers
