-- what is shown of calls, computed on the model's states
pub mod Seen
pub mod Computing
-- the rules for the link on bytes, as a test that computes and sees no memory
pub mod ListTests
pub mod RulesCheck
pub mod RulesSound
pub mod Bare
-- what is given and lent is bytes
pub mod CallBytes
-- the tables
pub mod Tables
pub mod ExamplesClaim
pub mod EverClaim
-- calls whose order counts
pub mod OrderCountsClaim
-- the bound on collects is reached
pub mod LastClaim
-- both parts of a stream, and the indexes of an insert
pub mod BothPartsClaim
