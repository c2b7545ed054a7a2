pub mod Moves
pub mod Sittings
