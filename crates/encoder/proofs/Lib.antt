-- What the calls' ways leave, in the order of use: parts of results, memory that forms a state, and the start.
pub mod Leaving
pub mod Standing
pub mod Starting
