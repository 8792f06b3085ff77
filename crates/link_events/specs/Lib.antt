-- What a call says of its end, and what is known of both ends.
pub mod Ends
pub mod Events
