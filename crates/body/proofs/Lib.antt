pub mod Laws
pub mod Loops
