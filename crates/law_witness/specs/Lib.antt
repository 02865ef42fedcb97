pub mod Cores
pub mod Met
pub mod Program
pub mod Stream
