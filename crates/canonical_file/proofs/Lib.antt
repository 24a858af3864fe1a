pub mod LineEndLaws
pub mod BodyLaws
pub mod DefineLaws
pub mod FileLaws
