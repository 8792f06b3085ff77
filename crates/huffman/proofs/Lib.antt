-- The laws of the code, of packing and of unpacking.
pub mod Tables
pub mod BitLaws
pub mod Prefixes
pub mod Standings
pub mod Pushing
pub mod Packs
pub mod Unpacks
pub mod RoundTrip
pub mod Vectors
