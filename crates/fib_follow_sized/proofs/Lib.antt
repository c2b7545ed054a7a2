pub mod Walking
pub mod Plied
pub mod Ended
pub mod Totals
