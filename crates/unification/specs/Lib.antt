pub mod Fronts
pub mod Unifiers
pub mod Sequences
pub mod Sheets
pub mod Orders
pub mod Pairs
pub mod Samples
pub mod Shares
