-- The laws of the claims.

-- what the rules for the link refuse
pub mod BrokenRules
-- a call on memory and bytes is the model's call on the state that memory stands for; then lists of calls
pub mod Lifted
pub mod SmallStates
pub mod StatesKept
pub mod DecoderLifting
pub mod EncoderLifting
pub mod Runs
pub mod DoneBytes
pub mod HeldSizes
-- demand 1: answers
pub mod Says
pub mod DecoderAnswers
pub mod EncoderAnswers
pub mod Beyond
pub mod Writes
pub mod Leaves
pub mod Answers
-- document 01's ten checks
pub mod CallTests
-- histories: what happened at each end, and what follows from it
pub mod BlockMeanings
pub mod LawfulReads
pub mod FinishedParts
pub mod BlockTurns
pub mod DecoderHistory
pub mod EncoderHappened
pub mod EncoderTables
pub mod EncoderChoices
pub mod EncoderReferring
pub mod EncoderDone
pub mod ClosedParts
pub mod EncoderHistory
pub mod Within
pub mod HistoriesClaim
-- demand 3, before "Hence"
pub mod StillAccepted
pub mod ReadyClaim
-- demand 3, from "Hence" on: instructions one after another, byte events beside the model's, the rules and what follows
pub mod Wires
pub mod Steps
pub mod StepHistories
pub mod StepBorders
pub mod QuietSteps
pub mod EncoderSteps
pub mod LinkSteps
pub mod LinkRules
pub mod LinkServed
pub mod LinkClaim
-- demand 3, entire
pub mod Demand
