pub mod Halves
pub mod Upon
pub mod Coming
pub mod Going
pub mod Listing
pub mod Chunks
pub mod Tallying
pub mod Joining
