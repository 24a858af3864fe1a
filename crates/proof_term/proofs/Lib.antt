pub mod ListLaws
mod PartialLaws
pub mod RefutesLaws
pub mod ValidLaws
mod WeakerLaws
