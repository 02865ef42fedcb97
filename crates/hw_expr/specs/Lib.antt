pub mod Nets
pub mod Signed
pub mod Lists
