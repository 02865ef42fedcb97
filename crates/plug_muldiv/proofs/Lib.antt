pub mod Unroll
pub mod Ends
pub mod Parts
