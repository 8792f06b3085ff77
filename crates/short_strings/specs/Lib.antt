-- Where a short string stands.
pub mod Short
