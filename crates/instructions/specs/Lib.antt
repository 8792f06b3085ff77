-- Instructions of the management stream and acknowledgements.
pub mod Instruction
pub mod Reading
