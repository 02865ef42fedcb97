pub mod Law
pub mod Builds
