pub mod Machine
pub mod Nets
pub mod Law
pub mod Builds
pub mod Lawful
