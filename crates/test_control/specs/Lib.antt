pub mod Rested
