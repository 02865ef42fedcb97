pub mod Truths
pub mod Slices
pub mod Tied
pub mod Stays
