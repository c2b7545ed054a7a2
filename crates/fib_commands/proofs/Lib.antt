pub mod Again
pub mod AgainLines
pub mod Dispatch
pub mod Inks
pub mod PathLemmas
pub mod Readings
