pub mod Words
pub mod Clashes
pub mod Covering
pub mod Entering
pub mod Counting
