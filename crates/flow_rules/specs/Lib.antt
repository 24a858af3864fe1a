pub mod Flow
pub mod Paths
pub mod Stored
