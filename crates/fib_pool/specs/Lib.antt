pub mod Objects
pub mod Records
pub mod inner
