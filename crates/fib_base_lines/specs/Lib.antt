pub mod Lines
pub mod LineWords
