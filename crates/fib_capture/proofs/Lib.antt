pub mod Reading
pub mod Records
pub mod Spanning
pub mod WrittenFiles
pub mod Pointing
pub mod Inside
pub mod Alike
