pub mod Machine
pub mod Runs
pub mod Builds
pub mod Registers
pub mod Begun
pub mod Reads
pub mod Late
