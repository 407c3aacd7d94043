pub mod Places
pub mod Filters
pub mod Takes
pub mod Left
pub mod Turns
pub mod Twice
pub mod CountsNew
pub mod Ends
