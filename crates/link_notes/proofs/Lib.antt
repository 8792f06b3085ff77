-- Laws of the notes of a link.
pub mod Mapping
pub mod Pushing
