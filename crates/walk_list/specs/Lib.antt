pub mod Listed
pub mod Object
