pub mod Meaning
pub mod Smallest
pub mod Sets
pub mod Banks
pub mod Common
pub mod Faults
pub mod Together
pub mod Banked
