pub mod Packets
pub mod Frames
pub mod Results
pub mod Claims
pub mod Work
pub mod inner
pub mod Taking
