pub mod Joins
pub mod Ports
pub mod Hex
pub mod Chains
pub mod Whole
pub mod Means
