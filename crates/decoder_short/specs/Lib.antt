-- What the pass over a short block takes from it and writes.
pub mod Pass
