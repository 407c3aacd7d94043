pub mod Objects
pub mod Outer
