pub mod Draft
pub mod Poked
