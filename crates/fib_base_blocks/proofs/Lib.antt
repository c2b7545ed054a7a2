pub mod Starts
pub mod Edits
pub mod Laid
pub mod Searching
