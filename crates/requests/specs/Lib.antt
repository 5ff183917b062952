pub mod Lines
pub mod Layout
pub mod Fields
pub mod Steps
pub mod Answers
pub mod Laws
