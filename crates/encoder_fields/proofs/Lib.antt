-- The choice of representations, what is chosen, the list field by field, and the bytes that its block takes at most.
pub mod Choosing
pub mod Chosen
pub mod Fields
pub mod Within
pub mod Bound
