pub mod Forests
pub mod Freshly
pub mod Fills
pub mod Changing
pub mod Growing
