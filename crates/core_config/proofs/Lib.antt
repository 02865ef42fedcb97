mod KeyLemmas
mod EntryLemmas
mod Answered
mod Documents
pub mod Allows
pub mod Lacks
