pub mod Steps
pub mod Sums
pub mod Accepted
pub mod First
pub mod Ends
