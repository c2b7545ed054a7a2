pub mod Controls
pub mod Turning
pub mod inner
