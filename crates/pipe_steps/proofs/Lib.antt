pub mod Bits
pub mod Units
pub mod Things
pub mod Choices
pub mod Tail
pub mod Step
pub mod Fit
pub mod Module
