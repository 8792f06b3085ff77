-- What the functions of `packing` mean. Packed strings themselves are defined in `huffman`.
pub mod Within
