pub mod Entered
pub mod Frames
pub mod Joined
pub mod Marked
pub mod Ordered
pub mod Parted
