-- The laws of a name that stands in the memory itself.
pub mod Names
