-- What a call answers and leaves.
pub mod Reply
pub mod Result
