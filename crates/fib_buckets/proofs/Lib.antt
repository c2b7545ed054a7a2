pub mod Ranks
pub mod Sixteen
pub mod Runs
pub mod Fair
