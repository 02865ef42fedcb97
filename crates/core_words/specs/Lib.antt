pub mod Names
pub mod Values
pub mod Fields
pub mod Words
