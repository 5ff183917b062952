pub mod Columns
pub mod Steps
pub mod Laws
