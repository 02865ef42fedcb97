pub mod Tests
pub mod Numbers
pub mod Results
pub mod Phases
pub mod Kept
pub mod Runs
