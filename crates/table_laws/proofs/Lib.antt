-- The laws of the changes.

-- fronts over fronts
pub mod Fronts
-- what each change of the part that both ends share leaves in memory is a front over the old memory
pub mod FrontRows
pub mod FrontFits
pub mod FrontStores
pub mod FrontMarks
pub mod FrontSplice
pub mod FrontStatus
pub mod FrontOpening
pub mod FrontInsert
pub mod FrontRemove
pub mod FrontKept
-- searches of either end: the order that they rely on, and where they split the entries
pub mod Ordering
pub mod Finding
-- the decoder: the places of its deletes, the rows of its entries, what searches say, and what each change leaves
pub mod DecoderPlaces
pub mod DecoderRows
pub mod DecoderSearches
pub mod DecoderFronts
pub mod DecoderInsert
pub mod DecoderKeep
pub mod DecoderFree
pub mod DecoderClaim
-- a place is always left
pub mod Room
-- the encoder: what searches find, an entry changed, horizons, what each change leaves, and the claim
pub mod EncoderSearches
pub mod EncoderSplits
pub mod EncoderHorizons
pub mod EncoderUpdates
pub mod EncoderClaim
