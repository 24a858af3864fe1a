mod CaseDiffer
pub mod CountLaws
mod FillLaws
mod FlowLaws
pub mod GraphLaws
mod HoldLaws
mod KnownLaws
mod LaidLaws
pub mod LayingLaws
mod LeadLaws
mod LitLaws
pub mod LittleLaws
pub mod MarkSums
pub mod MemberLaws
mod NumberLaws
mod OnePathLaws
pub mod OrderSums
mod PairLaws
pub mod PathMarks
mod PutCaseLaws
mod PutLaws
mod PutPathLaws
mod ReadPathLaws
mod ResolvedLaws
mod ReturnLaws
mod StepTests
pub mod StepsLaws
mod TakenLaws
mod TargetLaws
mod VisitLaws
mod WholeLaws
