pub mod Constants
pub mod Counted
