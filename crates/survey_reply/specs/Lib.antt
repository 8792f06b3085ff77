-- The reply to a block that was surveyed.
pub mod Told
