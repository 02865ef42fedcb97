pub mod Config
pub mod Allowed
