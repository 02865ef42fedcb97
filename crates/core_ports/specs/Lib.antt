pub mod Ports
pub mod Trace
