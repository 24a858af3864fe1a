pub mod Named
pub mod Reads
pub mod Cases
