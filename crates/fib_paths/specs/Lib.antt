pub mod PathLists
pub mod inner
