pub mod Rows
pub mod Filter
pub mod Takes
pub mod Lsas
pub mod Ages
pub mod Counts
pub mod Updates
