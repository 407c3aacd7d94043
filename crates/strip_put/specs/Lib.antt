pub mod Swap
pub mod Writer
