pub mod Limits
pub mod Pokes
pub mod Steps
