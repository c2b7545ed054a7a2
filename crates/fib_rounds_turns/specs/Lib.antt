pub mod Routers
pub mod Turns
pub mod Changes
pub mod inner
pub mod Listings
