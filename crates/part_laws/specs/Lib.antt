pub mod Joined
pub mod Pipes
pub mod Follow
pub mod Registered
pub mod ModuleRuns
