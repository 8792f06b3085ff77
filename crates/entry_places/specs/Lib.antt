-- Where an entry stands, whichever table has it.
pub mod Place
