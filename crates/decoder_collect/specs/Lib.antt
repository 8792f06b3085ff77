-- Which delete is ready, and which of them arrived first.
pub mod Ready
