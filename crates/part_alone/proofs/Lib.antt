pub mod Alone
pub mod First
pub mod Said
pub mod Offered
pub mod Plans
pub mod Seen
