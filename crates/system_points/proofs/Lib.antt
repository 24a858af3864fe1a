pub mod FitLaws
pub mod InLaws
pub mod PartLaws
pub mod RunLaws
