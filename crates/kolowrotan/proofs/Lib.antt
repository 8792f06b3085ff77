-- The told numbers fit: for each end.
pub mod Narrow
pub mod NarrowEncoder
