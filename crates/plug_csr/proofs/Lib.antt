pub mod Parts
pub mod Inputs
pub mod Moves
pub mod Offers
pub mod Done
pub mod Chain
