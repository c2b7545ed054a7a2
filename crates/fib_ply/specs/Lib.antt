-- What the prefix table's contracts say.
pub mod Prefixes
pub mod Rows
pub mod Served
pub mod Fitting
pub mod Plies
pub mod Hops
pub mod Calls
pub mod Blank
pub mod inner
pub mod Tables
