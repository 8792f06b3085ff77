-- What the changes of the table leave in memory.
pub mod Changes
