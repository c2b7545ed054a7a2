pub mod Lists
pub mod Booleans
