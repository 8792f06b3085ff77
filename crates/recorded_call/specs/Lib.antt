-- What a recorded call does.
pub mod Performed
