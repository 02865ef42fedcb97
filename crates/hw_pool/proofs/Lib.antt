pub mod Trees
pub mod Bounds
pub mod Frames
pub mod Scopes
