pub mod Depends
pub mod Runs
pub mod Same
pub mod Ports
pub mod Texts
pub mod Kept
pub mod Examples
pub mod Traces
