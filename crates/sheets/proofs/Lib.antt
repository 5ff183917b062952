mod Splits
mod Presents
mod Readings
mod Writings
