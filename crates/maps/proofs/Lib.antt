pub mod Lists
pub mod Sizes
pub mod Figures
pub mod Finding
