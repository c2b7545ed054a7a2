pub mod Mustering
pub mod Placing
pub mod Gathering
pub mod Arriving
pub mod Boarding
pub mod Drawing
