pub mod Formula
pub mod Machine
pub mod Params
pub mod Builds
