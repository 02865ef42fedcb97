pub mod Made
pub mod Bounds
pub mod Carries
pub mod Unit
pub mod Bare
pub mod Plain
