-- The laws of a string that is packed where it may stand plain.
pub mod TextRoom
