pub mod View
pub mod Promise
pub mod Frames
pub mod Stores
pub mod inner
