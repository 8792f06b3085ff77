-- What is shown of an answer.
pub mod Answers
