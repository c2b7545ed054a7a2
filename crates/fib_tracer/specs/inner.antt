-- Relations that carry proofs and no claim: none is needed to believe a public clause.
pub mod Going
pub mod Printing
pub mod Standing
pub mod Tracing
