-- The host's field list.
pub mod Form
pub mod Reading
