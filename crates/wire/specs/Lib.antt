-- Strings and names.
pub mod Text
pub mod Name
