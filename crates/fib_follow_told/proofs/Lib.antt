pub mod Gathering
pub mod Leading
pub mod Writing
pub mod Marking
pub mod Touching
pub mod Moving
