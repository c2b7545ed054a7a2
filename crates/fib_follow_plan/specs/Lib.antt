pub mod Made
pub mod Noted
pub mod Stands
pub mod inner
