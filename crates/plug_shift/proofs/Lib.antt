pub mod Words
pub mod Barrel
pub mod Places
pub mod Light
pub mod Parts
