pub mod AcyclicLaws
pub mod BlockingLaws
pub mod TakingLaws
pub mod TurnLaws
pub mod WalkLaws
