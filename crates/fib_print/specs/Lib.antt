pub mod Ends
pub mod Lines
pub mod Packets
pub mod Paths
pub mod inner
