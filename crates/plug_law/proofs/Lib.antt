pub mod Examples
pub mod Rows
pub mod Waiting
pub mod FenceWord
pub mod IsTable
pub mod Bridge
pub mod WrongFetch
pub mod Wrong
