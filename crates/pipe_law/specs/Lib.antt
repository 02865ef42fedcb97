pub mod Core
pub mod Serves
pub mod Brisk
pub mod Overlap
pub mod Claims
