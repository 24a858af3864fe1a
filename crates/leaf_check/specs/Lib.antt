pub mod Combined
pub mod Steps
pub mod Sums
