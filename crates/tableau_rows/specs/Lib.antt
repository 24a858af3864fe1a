pub mod Equation
pub mod Merge
pub mod Proper
pub mod Reduction
pub mod Substitution
pub mod Turning
