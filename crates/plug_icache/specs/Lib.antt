pub mod Sizes
pub mod Reads
pub mod Registers
pub mod Builds
pub mod Begun
pub mod Late
pub mod Powers
