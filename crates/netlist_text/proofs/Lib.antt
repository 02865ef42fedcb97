pub mod Rereads
pub mod Tokens
pub mod Plain
pub mod Spelled
pub mod Reading
pub mod Rows
pub mod Short
pub mod Examples
