pub mod Kinds
pub mod Nothing
