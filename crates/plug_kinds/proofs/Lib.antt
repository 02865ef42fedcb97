pub mod Bounds
mod Fits
pub mod Faults
pub mod Nothing
