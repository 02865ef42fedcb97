pub mod Tokens
pub mod Exprs
pub mod Items
pub mod Trees
pub mod Examples
