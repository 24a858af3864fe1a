pub mod GivenLaws
pub mod ReadLaws
