pub mod Adds
pub mod Lists
pub mod Wires
pub mod Regs
pub mod Outs
pub mod Left
pub mod Found
