pub mod Serving
pub mod Ruling
