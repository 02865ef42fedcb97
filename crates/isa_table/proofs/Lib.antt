pub mod Examples
pub mod Disjoint
pub mod Overlap
pub mod Places
pub mod Numbers
pub mod Uses
