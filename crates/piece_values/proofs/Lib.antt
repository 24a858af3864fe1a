mod AgreeLaws
mod EdgeLaws
pub mod FilledLaws
pub mod NameLaws
mod OperandLaws
pub mod OrderLaws
pub mod OwnerLaws
mod PhiLaws
mod RangeLaws
mod ReadyLaws
mod ReadyListLaws
pub mod TellLaws
