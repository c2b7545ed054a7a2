pub mod Texts
pub mod Traces
pub mod inner
