pub mod Faults
pub mod Means
pub mod Places
pub mod Maps
pub mod Table
