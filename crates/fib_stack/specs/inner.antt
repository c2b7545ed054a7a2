-- What carries the proofs of turns and retries, and no claim.
pub mod Growing
pub mod Moved
pub mod Turning
pub mod Readied
pub mod Leaving
