-- Relations that carry proofs and no claim: none is needed to believe a public clause.
pub mod Building
pub mod Compare
pub mod Dependants
pub mod Edges
pub mod Fields
pub mod Waking
pub mod Leaf
pub mod Plies
pub mod Coming
pub mod Part
pub mod Looping
pub mod Reaching
pub mod Used
