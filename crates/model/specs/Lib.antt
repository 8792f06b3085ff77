-- What the papers say of both tables, on abstract data, in the order in which a reader wants it.
pub mod Table
pub mod Parts
pub mod Outcome
pub mod Decoder
pub mod DecoderCalls
pub mod Encoder
pub mod EncoderCalls
pub mod Happened
pub mod Events
