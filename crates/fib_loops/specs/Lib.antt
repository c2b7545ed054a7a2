pub mod Loops
pub mod inner
