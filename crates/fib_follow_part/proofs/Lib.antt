pub mod Searching
mod Leaving
pub mod Parting
pub mod Numbering
pub mod Fallen
pub mod Blocks
