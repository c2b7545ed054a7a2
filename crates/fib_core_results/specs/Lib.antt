pub mod Steady
pub mod Trails
pub mod Versions
