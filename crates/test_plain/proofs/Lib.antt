pub mod Exits
pub mod Leading
pub mod Stability
pub mod Viewing
pub mod Following
