pub mod Answers
pub mod List
