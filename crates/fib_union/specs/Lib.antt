pub mod Backed
pub mod Marks
pub mod Unions
pub mod inner
