-- Demand 2: what the encoder's calls write reads back.
pub mod Written
