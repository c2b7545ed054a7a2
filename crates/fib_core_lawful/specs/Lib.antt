pub mod Layout
pub mod State
pub mod Frame
pub mod Lawful
pub mod May
pub mod Claims
pub mod Rule
