pub mod Spec
pub mod Picks
pub mod Rules
pub mod Accept
pub mod SoFar
pub mod Calls
