-- The static table of RFC 7541.
pub mod Ascii
pub mod Table
