-- Where a machine stands, and hours that fall.
pub mod Falls
pub mod Standing
