pub mod More
pub mod Claims
pub mod Gathers
pub mod Decodes
pub mod Keeps
pub mod Parts
pub mod Plans
