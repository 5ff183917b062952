mod Checking
mod Opens
mod Reserves
pub mod Sounds
