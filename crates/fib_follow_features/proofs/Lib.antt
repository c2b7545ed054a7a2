pub mod Covered
pub mod Gathered
pub mod Holding
pub mod Noting
pub mod Same
pub mod Tabled
