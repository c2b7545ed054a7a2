pub mod Lends
pub mod inner
