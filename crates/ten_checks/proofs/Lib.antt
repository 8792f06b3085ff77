-- That the ten checks hold.
pub mod TenChecks
