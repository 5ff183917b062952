pub mod Alike
pub mod Pushes
pub mod Groups
pub mod Decoded
pub mod Single
