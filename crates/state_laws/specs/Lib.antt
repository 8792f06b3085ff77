-- What ties memory to the model's states.
pub mod Laws
