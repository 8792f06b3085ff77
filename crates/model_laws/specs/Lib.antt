-- What is shown of the model, as lemmas for the claims, in the order in which a reader wants it.
pub mod Ready
pub mod Promises
pub mod History
pub mod Link
pub mod Demand
