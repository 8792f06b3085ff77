-- The laws of a horizon that is raised.
pub mod Raising
