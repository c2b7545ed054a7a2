pub mod Joining
pub mod BaseParts
pub mod Hosted
pub mod Made
pub mod Compared
