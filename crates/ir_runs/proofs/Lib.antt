pub mod AnswerLaws
pub mod BlockLaws
pub mod EntryLaws
mod FitLaws
pub mod MemberLaws
pub mod NamesLaws
mod OnceLaws
pub mod OperandLaws
pub mod SiteLaws
pub mod StepLaws
pub mod TrailLaws
pub mod UsedLaws
mod ValueLaws
pub mod WalkLaws
pub mod WidthLaws
