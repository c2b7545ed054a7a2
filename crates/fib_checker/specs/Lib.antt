pub mod Checks
pub mod Ready
pub mod Output
pub mod Words
pub mod Runs
