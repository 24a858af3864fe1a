pub mod Found
pub mod Homes
pub mod Paths
pub mod Uses
