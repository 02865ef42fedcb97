pub mod Fits
pub mod Scopes
pub mod Drivers
pub mod Frames
pub mod Makes
pub mod Tables
pub mod Ranges
pub mod Fill
