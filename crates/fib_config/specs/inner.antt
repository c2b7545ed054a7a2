-- Relations that carry proofs and no claim: none is needed to believe a public clause.
pub mod Bounds
pub mod Digest
pub mod Fields
pub mod Lists
