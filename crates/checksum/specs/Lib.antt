pub mod Answers
pub mod Lsa
