-- Relations that carry proofs and no claim: none is needed to believe a public clause.
pub mod Hosts
pub mod Hops
pub mod Others
pub mod Ends
pub mod Telling
