-- What the table's searches and changes mean for the model's states.
pub mod DecoderChanges
pub mod EncoderChanges
pub mod Room
