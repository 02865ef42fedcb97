pub mod Counts
pub mod Phase
