pub mod Keys
pub mod Looks
pub mod Changes
