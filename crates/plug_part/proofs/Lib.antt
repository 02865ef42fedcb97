pub mod Rows
pub mod OneService
pub mod Things
pub mod Owners
