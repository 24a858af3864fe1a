pub mod BestLaws
mod CoverLaws
mod CutLaws
pub mod EntryLaws
pub mod LabelLaws
pub mod WalkPaths
