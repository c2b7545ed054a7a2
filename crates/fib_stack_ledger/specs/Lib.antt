pub mod Deferred
pub mod Ledgers
