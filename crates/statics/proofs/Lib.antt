-- Laws of the static table: where its entries stand in its text, and the sizes of their parts.
pub mod Entries
pub mod Places
pub mod Arms
