mod Decides
pub mod Has
pub mod Steps
pub mod Plain
