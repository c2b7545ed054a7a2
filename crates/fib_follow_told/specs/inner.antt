-- Relations that carry proofs and no claim: none is needed to believe a public clause.
pub mod Gathered
pub mod Lacking
pub mod Marks
pub mod Tests
pub mod Moves
