pub mod Path
pub mod Finish
pub mod Causes
pub mod Entry
pub mod After
pub mod Told
pub mod Unit
pub mod Picks
