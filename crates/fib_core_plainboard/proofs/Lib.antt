pub mod Happening
pub mod Views
pub mod Keeping
pub mod Passing
pub mod Hopping
pub mod Ending
pub mod Calls
