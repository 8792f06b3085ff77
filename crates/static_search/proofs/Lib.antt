-- Laws of the searches of the static table: how entries are compared, and what is found.
pub mod Testing
pub mod Finding
pub mod Hashing
pub mod Compared
pub mod Runs
pub mod Words
pub mod Values
