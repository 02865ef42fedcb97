pub mod Keeps
pub mod Working
pub mod Meeting
pub mod RegSteps
pub mod Parts
pub mod Building
