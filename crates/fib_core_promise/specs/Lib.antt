pub mod Matches
pub mod Stack
pub mod Marks
pub mod Turns
pub mod Kept
