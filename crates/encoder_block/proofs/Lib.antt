-- The laws of the encoder's block call: the call by its ways.
pub mod Giving
