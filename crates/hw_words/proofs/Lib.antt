pub mod Fields
pub mod Bits
pub mod Immediates
pub mod Sums
pub mod Halves
mod Mirror
pub mod Shifts
pub mod Gathers
