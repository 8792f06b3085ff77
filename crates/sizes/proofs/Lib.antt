pub mod Equations
pub mod Lengths
