pub mod Names
pub mod Lines
pub mod Means
pub mod Written
