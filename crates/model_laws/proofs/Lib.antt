-- The proofs of what the papers say, on abstract data, in the order in which a reader wants them. Nothing here has to be believed.

-- tables: lists of entries, of deletes and of marks
pub mod Tables
pub mod Deletes
pub mod Marks
-- the decoder and the encoder, case by case
pub mod DecoderWays
pub mod EncoderWays
pub mod Limits
pub mod Order
-- computed facts about collects and enquiries
pub mod Freeing
-- states stay well formed
pub mod TableChanges
pub mod SentChanges
pub mod Forms
pub mod FormsSent
-- demand 3, before "Hence": what is ready, and what a collect frees
pub mod CouldStill
pub mod Collecting
pub mod Ready
pub mod ReadyClaim
-- request 14: what is ready is acknowledged soon
pub mod Collects
-- the link as slots: each index for itself, and the invariant
pub mod Slots
-- the tables seen as slots
pub mod View
pub mod TableView
pub mod ReadView
pub mod BlockView
pub mod CollectView
pub mod EncoderSlots
pub mod EncoderItems
pub mod EncoderBlocks
pub mod EncoderNotes
pub mod EncoderView
-- demand 3, after "Hence": the link
pub mod Linking
pub mod LinkHistory
pub mod LinkRules
pub mod LinkState
pub mod LinkWrites
pub mod LinkReads
pub mod LinkOffers
pub mod LinkHeld
pub mod LinkCalls
pub mod LinkClaim
-- histories: each table, and the encoder's horizons, by what happened since the start
pub mod HappenedLists
pub mod DecoderHistory
pub mod Held
pub mod Horizons
pub mod Histories
pub mod SentHappened
pub mod SentSums
-- promises: what each answer says
pub mod Answers
pub mod Saying
pub mod Holding
pub mod Promises
-- the demand
pub mod Demand
