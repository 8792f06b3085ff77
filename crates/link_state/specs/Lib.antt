-- What speaks against telling a message's hours.
pub mod Doubts
