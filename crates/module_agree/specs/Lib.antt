pub mod Agree
pub mod Keeps
pub mod Traces
