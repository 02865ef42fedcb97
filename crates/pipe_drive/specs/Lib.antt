pub mod Rows
pub mod Drives
pub mod Rights
