pub mod Maps
pub mod Sizes
