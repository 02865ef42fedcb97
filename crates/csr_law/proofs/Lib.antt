pub mod Tests
pub mod Numbers
pub mod Results
pub mod Quiet
pub mod Kept
pub mod Runs
