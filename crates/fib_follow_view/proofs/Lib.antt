pub mod Told
pub mod After
