pub mod Counts
pub mod Before
pub mod Table
pub mod Lengths
pub mod Lows
pub mod Ranked
