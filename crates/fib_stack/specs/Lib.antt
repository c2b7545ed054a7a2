-- What the stack's contracts say.
pub mod States
pub mod Steps
pub mod Steadiness
pub mod Orders
pub mod Buckets
pub mod Records
pub mod Runs
pub mod Calls
pub mod Joined
pub mod Moments
pub mod Turns
pub mod Room
pub mod Done
pub mod inner
