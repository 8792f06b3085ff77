-- entries by their index and for their name
pub mod Entries
-- fields one behind the other, and a whole block of them
pub mod Turns
pub mod Whole
