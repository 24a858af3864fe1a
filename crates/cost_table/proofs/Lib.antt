pub mod DifferentLaws
pub mod DigitLaws
mod HalvingLaws
pub mod KeptLaws
mod LabelLaws
pub mod LineLaws
pub mod NameLaws
pub mod OneEntryLaws
pub mod OneLineLaws
pub mod OneTableLaws
pub mod TableLaws
