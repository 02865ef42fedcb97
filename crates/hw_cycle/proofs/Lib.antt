pub mod Arithmetic
pub mod Tables
pub mod Bounded
pub mod Operators
pub mod Tops
pub mod Steps
pub mod States
pub mod Commits
