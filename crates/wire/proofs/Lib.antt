pub mod Strings
pub mod TextWriting
pub mod TextBounds
pub mod TextBack
pub mod TextKept
pub mod TextVectors
pub mod Told
pub mod Numbers
