pub mod Calm
pub mod Crowding
pub mod Seats
