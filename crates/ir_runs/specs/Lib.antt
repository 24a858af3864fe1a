pub mod Answer
pub mod Costs
pub mod Fit
pub mod Operands
pub mod Run
pub mod Values
pub mod Walk
