-- What the functions of `memory` mean.
pub mod Choice
pub mod Bytes
pub mod Numbers
pub mod Compare
