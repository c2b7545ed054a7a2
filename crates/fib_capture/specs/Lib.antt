pub mod Captures
pub mod FlowHash
pub mod Spans
pub mod Written
