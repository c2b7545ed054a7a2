pub mod Canonical
pub mod Lines
pub mod Names
pub mod Paths
pub use Rattle.fib_base_lines.specs.Lines as FileLines
pub use Rattle.fib_base_lines.specs.LineWords
