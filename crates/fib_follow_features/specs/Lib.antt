pub mod FoundBy
pub mod Holders
pub mod inner
