-- The 128 places never run out.
pub mod Places
