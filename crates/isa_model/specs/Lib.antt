pub mod Machine
pub mod Effects
pub mod Step
pub mod Run
