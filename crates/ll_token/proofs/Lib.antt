pub mod ListLaws
pub mod PieceLaws
pub mod GapLaws
pub mod StringLaws
pub mod LexemeLaws
pub mod AgainLaws
pub mod ScanLaws
pub mod TokenNameLaws
