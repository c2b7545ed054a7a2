pub mod Books
pub mod Finding
pub mod Moving
pub mod Rows
pub mod Undoing
