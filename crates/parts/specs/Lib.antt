-- Parts of streams in memory.
pub mod Turn
pub mod Close
