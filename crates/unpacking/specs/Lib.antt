-- What the functions of `unpacking` mean. Packed strings themselves are defined in `huffman`.
pub mod Waiting
pub mod Turns
