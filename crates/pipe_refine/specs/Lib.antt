pub mod Refines
pub mod CoreText
