pub mod Plans
pub mod Steps
pub mod Written
pub mod inner
