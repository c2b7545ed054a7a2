pub mod Inside
pub mod Lengths
pub mod Matches
pub mod Order
pub mod Sets
