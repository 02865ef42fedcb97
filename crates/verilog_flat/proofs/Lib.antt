pub mod Well
pub mod Runs
