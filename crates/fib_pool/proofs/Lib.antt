pub mod Keeping
pub mod Pools
