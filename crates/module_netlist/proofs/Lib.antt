pub mod Looks
pub mod Naming
pub mod Free
pub mod Writing
pub mod Examples
pub mod Instance
