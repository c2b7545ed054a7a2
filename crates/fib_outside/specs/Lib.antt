pub mod FaultCounts
pub mod Memory
pub mod Outside
