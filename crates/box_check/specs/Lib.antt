pub mod Bounds
pub mod Hints
