pub mod Leaving
mod Scans
mod Firsts
pub mod Storing
