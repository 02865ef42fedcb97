pub mod Stays
pub mod Bits
