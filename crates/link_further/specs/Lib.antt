-- Further claims over whole lists of calls, after `link`'s Claims: Collects, for what a collect frees in time, Order, for calls of the decoder that may change
-- places, and Anew, for links that start anew.
pub mod Collects
pub mod Order
pub mod Anew
