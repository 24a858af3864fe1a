pub mod Counts
pub mod Phis
