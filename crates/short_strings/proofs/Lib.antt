-- The laws of short strings: what stands there is what the reader finds.
pub mod ShortStrings
