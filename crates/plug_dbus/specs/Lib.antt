pub mod Machine
pub mod Nets
pub mod Builds
pub mod Registers
pub mod Built
