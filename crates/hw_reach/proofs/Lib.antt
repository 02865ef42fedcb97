pub mod Reached
pub mod Solves
pub mod Marking
pub mod Bounds
