pub mod Theory
pub mod Cells
pub mod Places
pub mod Joins
pub mod Lines
pub mod Pairs
pub mod Fitting
pub mod Samples
