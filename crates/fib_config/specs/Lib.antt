pub mod inner
pub mod Config
pub mod Undone
