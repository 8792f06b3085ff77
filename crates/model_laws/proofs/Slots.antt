-- The tables as functions of the index, and the invariant of a link between them, slot by slot.
pub mod Functions
pub mod Machine
pub mod Messages
pub mod Life
pub mod Invariant
pub mod Unread
pub mod Writing
pub mod Referring
pub mod Freeing
pub mod Reading
pub mod Serving
