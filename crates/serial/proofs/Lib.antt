mod Covered
mod Refuted
pub mod Invariant
pub mod Rolls
pub mod Ties
pub mod Entering
pub mod Surveys
