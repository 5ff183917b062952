pub mod Lines
pub mod Texts
pub mod Meaning
pub mod Change
pub mod Tested
pub mod Faults
pub mod Open
pub mod Laws
