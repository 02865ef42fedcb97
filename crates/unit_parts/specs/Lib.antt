pub mod Computing
pub mod Says
