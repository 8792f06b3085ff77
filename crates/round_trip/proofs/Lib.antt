-- The proof that what the encoder writes reads back.
pub mod Wrote
pub mod Meaning
pub mod WrittenClaim
