pub mod World
pub mod Fits
pub mod Done
pub mod Frame
pub mod Run
