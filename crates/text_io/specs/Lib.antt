pub mod Incomplete
pub mod Lines
pub mod Print
