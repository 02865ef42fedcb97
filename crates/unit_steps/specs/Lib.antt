pub mod Cycles
pub mod Signals
pub mod Registers
pub mod Parts
