pub mod Best
pub mod Paths
pub mod Portions
pub mod Reach
