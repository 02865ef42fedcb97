pub mod Finds
pub mod Values
pub mod Contents
pub mod Meant
