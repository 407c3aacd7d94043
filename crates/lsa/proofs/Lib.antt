pub mod Bounds
pub mod Parts
