pub mod Parts
pub mod Refusals
pub mod Report
pub mod Status
