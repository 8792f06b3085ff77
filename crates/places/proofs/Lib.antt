-- The proofs that the 128 places never run out.
pub mod PlacesClaim
