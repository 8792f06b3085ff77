-- strings, and fields of them
pub mod Texts
pub mod Literals
