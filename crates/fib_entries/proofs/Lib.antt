pub mod Covering
pub mod Moving
pub mod Carrying
pub mod Follows
