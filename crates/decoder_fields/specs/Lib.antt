-- An index told apart from the other representations of a block.
pub mod Indexes
