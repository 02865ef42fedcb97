pub mod Stages
pub mod Search
