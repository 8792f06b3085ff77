-- What the contracts of `labels` cite.
pub mod Words
