pub mod Adjacencies
pub mod Entries
pub mod Order
pub mod PathLists
pub mod inner
