-- Relations that carry proofs and no claim: none is needed to believe a public clause.
pub mod Adding
pub mod Naming
pub mod Turning
pub mod Finding
