pub mod ExcludedLaws
pub mod GoalLaws
pub mod LatestLaws
pub mod TheoryLaws
