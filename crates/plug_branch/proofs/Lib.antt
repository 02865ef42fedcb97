pub mod Flows
pub mod Rows
pub mod Keeps
pub mod Parts
