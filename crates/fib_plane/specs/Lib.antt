pub mod Planes
pub mod Puts
pub mod Sound
pub mod Records
pub mod Views
pub mod Props
pub mod inner
