pub mod Early
pub mod Rest
