pub mod Firsts
pub mod Writers
pub mod Pairs
pub mod Refused
pub mod Unique
pub mod Decided
