pub mod Interned
pub mod inner
