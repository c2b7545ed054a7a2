pub mod Rows
pub mod Known
pub mod Changes
pub mod inner
