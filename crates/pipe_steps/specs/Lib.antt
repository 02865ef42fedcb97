pub mod Equations
pub mod Things
pub mod Values
pub mod Drives
pub mod Runs
pub mod Numbers
pub mod Steps
