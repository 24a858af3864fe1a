pub mod Arithmetic
pub mod Items
pub mod Limits
