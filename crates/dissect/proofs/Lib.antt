pub mod Bound
pub mod Turn
pub mod First
pub mod Input
