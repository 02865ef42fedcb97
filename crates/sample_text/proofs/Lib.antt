pub mod Drafts
pub mod Counts
pub mod Limits
pub mod Pokes
