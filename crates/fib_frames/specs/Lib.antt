pub mod Frames
pub mod Sends
