-- What the proofs of `text_io` share.
pub mod Printing
