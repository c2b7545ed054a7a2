pub mod Rows
pub mod Cuts
pub mod Changes
pub mod Sets
pub mod Spans
