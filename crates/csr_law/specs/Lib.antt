pub mod Words
pub mod Machine
pub mod Law
pub mod Runs
