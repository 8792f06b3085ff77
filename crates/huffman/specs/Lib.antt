-- The code of RFC 7541, and strings packed and unpacked by it.
pub mod Codes
pub mod Bits
pub mod Packing
