pub mod Again
pub mod Changing
pub mod Clean
pub mod Counts
pub mod Parts
pub mod Steps
pub mod Texts
