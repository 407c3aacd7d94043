-- Laws of an address and of the comparison of two.
pub mod Addresses
