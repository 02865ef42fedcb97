pub mod Bits
pub mod Sums
pub mod Halves
pub mod Shifts
pub mod Gather
