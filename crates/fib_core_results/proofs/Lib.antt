pub mod Settled
pub mod Versions
