mod Passes
pub mod Rows
pub mod Entries
mod Counting
