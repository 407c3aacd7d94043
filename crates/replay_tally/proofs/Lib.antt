pub mod Loops
pub mod Turns
