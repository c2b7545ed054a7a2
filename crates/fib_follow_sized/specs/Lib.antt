pub mod Holders
pub mod inner
