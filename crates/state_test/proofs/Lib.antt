-- The turns of the test whether memory forms a state, and one law for each way through it.
pub mod FormsWays
pub mod FormsTurns
