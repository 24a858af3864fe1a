pub mod Goal
pub mod Latest
pub mod Theory
