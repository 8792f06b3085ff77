-- an index told apart, the block turn by turn, and what each turn adds to the output
pub mod Indexing
pub mod Writing
