pub mod Longest
pub mod Prefixes
pub mod Texts
