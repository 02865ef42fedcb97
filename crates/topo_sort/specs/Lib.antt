pub mod Graph
pub mod Order
pub mod Stops
pub mod Ranks
pub mod Search
pub mod Moves
pub mod Reach
pub mod Falls
