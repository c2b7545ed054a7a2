pub mod LateLists
pub mod Books
