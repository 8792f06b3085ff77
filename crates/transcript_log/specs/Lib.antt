-- What the contracts of `transcript_log` cite.
pub mod Tally
