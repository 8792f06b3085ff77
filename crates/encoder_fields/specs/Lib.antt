-- The choice of a name, what a field list takes on the wire, and the references of a block.
pub mod Naming
pub mod Measure
pub mod Refer
