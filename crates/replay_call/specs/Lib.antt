pub mod Stored
pub mod Calls
