-- The claims over whole lists of calls. Claims is the file to read, with Calls and Happened before it.
pub mod Calls
pub mod Happened
pub mod Answers
pub mod Histories
pub mod Claims
