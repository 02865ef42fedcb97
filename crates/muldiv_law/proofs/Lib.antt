pub mod Numbers
pub mod Products
pub mod Quotients
pub mod Results
pub mod Rows
pub mod Rounds
