pub mod BackwardLaws
pub mod MarkingLaws
pub mod SortingLaws
