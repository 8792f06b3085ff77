-- The laws of `holds`: plain values, for the functions' proofs.
pub mod Naming
pub mod Telling
pub mod Opening
pub mod Reading
