-- The laws of short representations: what stands there is what the reader finds.
pub mod ShortEquations
pub mod ShortReads
