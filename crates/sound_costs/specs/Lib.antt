pub mod Costs
pub mod Edges
