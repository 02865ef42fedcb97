pub mod Netlist
pub mod Text
pub mod Places
pub mod Meaning
pub mod Writable
