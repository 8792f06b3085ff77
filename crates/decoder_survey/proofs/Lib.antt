-- what an index names, and what a representation means
pub mod Entries
pub mod Fields
-- short representations
pub mod ShortForms
-- the block turn by turn, and what each turn adds to the survey
pub mod Rest
pub mod Surveying
