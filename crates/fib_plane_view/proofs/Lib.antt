pub mod Frames
pub mod Storing
pub mod Filling
