-- The short codes by the bits that they begin.
pub mod Short
