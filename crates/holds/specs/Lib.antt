-- Parts that a delete names, counted in memory.
pub mod Hold
