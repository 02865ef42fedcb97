pub mod Nets
pub mod Values
pub mod Halves
pub mod Orders
pub mod Scopes
