pub mod Bits
pub mod Parts
pub mod Stays
pub mod Moves
pub mod Offers
pub mod Done
pub mod Chain
