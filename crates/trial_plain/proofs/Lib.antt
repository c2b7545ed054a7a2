pub mod Calming
pub mod Seating
pub mod Starting
pub mod Taking
pub mod Crowding
