pub mod Rested
pub mod Stays
