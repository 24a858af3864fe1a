pub mod Mixed
pub mod Turns
