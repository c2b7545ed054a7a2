-- What carries the proofs in the midst of a call.
pub mod Filling
