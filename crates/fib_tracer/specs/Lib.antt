pub mod Words
pub mod Lines
pub mod Passes
pub mod TraceOutput
pub mod inner
