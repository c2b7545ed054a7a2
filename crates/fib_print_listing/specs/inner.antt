-- Relations that carry proofs and no claim: none is needed to believe a public clause.
pub mod Lists
pub mod Added
pub mod Forwards
pub mod Hops
pub mod Views
