pub mod Machine
pub mod Builds
