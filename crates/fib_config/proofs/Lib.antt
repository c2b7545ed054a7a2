pub mod Counts
pub mod Made
pub mod Places
pub mod Within
pub mod Lists
pub mod Growing
pub mod Batches
pub mod Keying
