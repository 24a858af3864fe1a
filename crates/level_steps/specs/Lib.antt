pub mod Laws
pub mod Level
pub mod Plain
pub mod Raised
pub mod Steps
