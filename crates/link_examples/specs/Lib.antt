-- Closed lists of calls: Examples is the file to read. Ever has one that the rules for the link refuse, OrderCounts calls whose order counts, Last one at a decoder that reaches a
-- bound, BothParts calls on both parts of a stream.
pub mod Examples
pub mod Ever
pub mod OrderCounts
pub mod Last
pub mod BothParts
