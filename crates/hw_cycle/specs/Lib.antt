pub mod State
pub mod Inputs
pub mod Evaluate
pub mod Levels
pub mod Commit
