-- Stream lists.
pub mod StreamList
