pub mod Paths
pub mod Sorted
