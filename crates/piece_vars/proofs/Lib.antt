pub mod ApartLaws
pub mod CaseLaws
pub mod HoldLaws
mod NamedBlocks
pub mod NamedLaws
mod NamedOthers
mod NamedWraps
pub mod OperandLaws
mod OwnLaws
