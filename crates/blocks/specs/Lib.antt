-- Header blocks: representations, whole blocks, and what they mean over a lookup.
pub mod Representation
pub mod Reading
pub mod Meaning
