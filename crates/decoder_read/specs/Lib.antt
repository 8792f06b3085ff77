-- The decoder's read call.
pub mod Steps
