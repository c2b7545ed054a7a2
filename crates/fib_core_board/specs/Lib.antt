pub mod Boards
pub mod May
pub mod Told
pub mod Crews
