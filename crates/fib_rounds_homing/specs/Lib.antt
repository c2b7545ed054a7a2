pub mod Stations
pub mod Places
pub mod Homes
pub mod inner
