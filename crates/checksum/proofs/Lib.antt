-- Laws of an LSA that is read by words.
pub mod Words
