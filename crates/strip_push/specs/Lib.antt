pub mod Finishes
pub mod Values
