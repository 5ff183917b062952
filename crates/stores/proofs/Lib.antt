mod Changes
pub mod Writes
pub mod Puts
pub mod Finding
