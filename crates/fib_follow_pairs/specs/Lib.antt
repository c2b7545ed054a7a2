pub mod Fresh
pub mod inner
