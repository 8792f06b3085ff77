-- Where a short representation stands.
pub mod Short
