-- Laws of comparing a stored call with the walks.
pub mod Meaning
pub mod Blocks
pub mod Told
