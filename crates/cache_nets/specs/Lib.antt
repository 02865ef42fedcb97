pub mod Machine
pub mod Nets
pub mod Runs
