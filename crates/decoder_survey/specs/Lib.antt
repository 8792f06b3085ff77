-- What a block means against the table in memory, what its fields measure, and what the passes over it find and write.
pub mod Measure
pub mod Passes
