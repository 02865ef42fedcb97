pub mod Crowds
pub mod Offers
pub mod Walks
pub mod Places
pub mod Refused
pub mod Decided
