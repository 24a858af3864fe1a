pub mod Fed
pub mod Kept
pub mod Laws
pub mod Outcome
pub mod Place
pub mod Spelled
pub mod Verdict
