-- What the functions of `long_codes` mean. The code itself is defined in `huffman`.
pub mod Fronts
