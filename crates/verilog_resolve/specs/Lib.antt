pub mod Names
pub mod View
pub mod Flat
pub mod Fine
pub mod Means
pub mod Wires
