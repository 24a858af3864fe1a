pub mod Laws
pub mod Levels
pub mod Partial
pub mod PartialLaws
pub mod Refutes
pub mod Steps
pub mod Valid
pub mod Weaker
