pub mod Draws
pub mod Flows
pub mod Kinds
pub mod Scripts
