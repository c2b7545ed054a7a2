pub mod Spans
pub mod Matching
pub mod Forwards
pub mod Works
pub mod Drawn
