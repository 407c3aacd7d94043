-- Laws of the stored calls' definitions.
pub mod Rule
pub mod Turns
