pub mod Agree
pub mod Blocks
