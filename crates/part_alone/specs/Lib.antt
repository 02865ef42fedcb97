pub mod Built
pub mod Chosen
