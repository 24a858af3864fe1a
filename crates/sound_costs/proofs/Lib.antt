pub mod CostLaws
pub mod EdgeLaws
mod MemberLaws
mod PlacedLaws
mod SortedLaws
