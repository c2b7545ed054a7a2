pub mod Listed
pub mod Balances
pub mod Nibbles
pub mod Calm
pub mod Standing
pub mod Settling
