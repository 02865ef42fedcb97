pub mod Runs
pub mod Modules
