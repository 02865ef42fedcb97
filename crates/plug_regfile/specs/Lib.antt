pub mod Machine
pub mod Builds
pub mod Steps
