-- What is lent is the first bytes, as many as the room says.
pub mod Lending
