-- The laws of the decoder's block call.
pub mod Calls
