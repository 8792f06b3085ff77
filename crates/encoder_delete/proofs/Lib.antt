-- The laws of the encoder's delete call.
pub mod Deleting
