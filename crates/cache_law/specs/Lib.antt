pub mod Machine
pub mod Cells
pub mod Law
pub mod Runs
