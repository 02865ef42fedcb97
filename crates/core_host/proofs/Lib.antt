pub mod Ports
pub mod Pulled
pub mod Places
pub mod Examples
