-- Relations that carry proofs and no claim: none is needed to believe a public clause.
pub mod Ready
pub mod Spent
pub mod Stepped
