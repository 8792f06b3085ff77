-- The papers' rules as computed facts, and the one law on sizes that an edit here breaks. What else is proved of all states and all lists of calls is in crate
-- model_laws.
pub mod Running
pub mod AcceptanceCalls
pub mod AcceptanceParts
pub mod Acceptance
pub mod Places
