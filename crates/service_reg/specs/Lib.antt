pub mod Services
pub mod Search
