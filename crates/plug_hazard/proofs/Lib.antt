pub mod Chooses
pub mod Keeps
pub mod Parts
pub mod Added
pub mod Early
pub mod Found
pub mod Late
