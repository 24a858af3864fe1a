pub mod FewLaws
mod PartLaws
pub mod SpendLaws
