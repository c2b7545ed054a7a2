-- What carries the proofs in the middle of a change.
pub mod View
pub mod Trie
pub mod Change
pub mod Upto
