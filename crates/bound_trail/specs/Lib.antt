pub mod Edges
pub mod Falsified
pub mod Reach
pub mod Stored
pub mod Trail
