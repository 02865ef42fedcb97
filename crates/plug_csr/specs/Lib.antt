pub mod Cycle
pub mod Registers
pub mod Built
pub mod Builds
