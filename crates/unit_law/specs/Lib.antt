pub mod AtOnce
pub mod Computing
