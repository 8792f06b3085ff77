-- The laws of the further claims.

-- request 14: no deletion forgotten
pub mod CollectsClaim
-- the order of reports
pub mod ApartFacts
pub mod OrderMarks
pub mod OrderCalls
pub mod OrderAgain
pub mod OrderClaim
-- links that start anew: what each end starts a table with, the table's own run, and the link's claim for it
pub mod TableStarts
pub mod TableRuns
pub mod TablesClaim
