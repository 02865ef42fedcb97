pub mod Flat
pub mod Writes
pub mod Props
pub mod Builds
pub mod Cycle
