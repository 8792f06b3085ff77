-- How a field is shown.
pub mod Ascii
pub mod Shown
