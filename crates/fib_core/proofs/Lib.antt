pub mod Numbers
pub mod Unions
pub mod Edges
pub mod Passes
pub mod Walks
pub mod Stands
pub mod Endings
pub mod Wholes
