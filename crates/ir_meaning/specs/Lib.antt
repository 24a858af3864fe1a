pub mod Compare
pub mod Rows
pub mod Value
pub mod Whole
