pub mod Looks
pub mod inner
