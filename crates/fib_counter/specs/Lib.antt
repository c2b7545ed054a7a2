pub mod CountOutput
pub mod Words
pub mod inner
