pub mod Offered
pub mod Facts
pub mod Joins
pub mod Plans
