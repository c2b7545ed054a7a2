pub mod SamePaths
pub mod Listing
