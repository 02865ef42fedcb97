pub mod Machine
pub mod Nets
