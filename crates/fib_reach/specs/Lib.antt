pub mod Graphs
pub mod Search
pub mod Seen
pub mod Walks
pub mod inner
