pub mod Commands
pub mod Lining
pub mod Tallying
pub mod Summing
pub mod Posting
pub mod Printing
pub mod Endings
