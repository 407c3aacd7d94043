pub mod Entries
pub mod KindLaws
pub mod Steps
