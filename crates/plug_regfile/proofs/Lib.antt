pub mod Keeps
pub mod Late
