pub mod LineLemmas
pub mod Splits
pub mod WordLemmas
