-- What a report says.
pub mod Report
pub mod Said
