-- The laws of the encoder's acknowledge call: bytes taken, and the call by its ways.
pub mod Taking
pub mod Acknowledging
