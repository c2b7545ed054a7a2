pub mod Ending
pub mod Going
pub mod Making
pub mod Moving
pub mod Printing
pub mod Standing
pub mod Telling
pub mod Wording
