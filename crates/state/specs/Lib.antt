-- What the state memory stands for, in the order of docs/STATE.md: the places, the part that both ends share, the decoder's and the encoder's state.
pub mod Layout
pub mod Rows
pub mod Front
pub mod DecoderState
pub mod EncoderState
pub mod Forms
