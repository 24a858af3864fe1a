pub mod AllowedLaws
pub mod KeptLaws
pub mod LocalLaws
pub mod LogLaws
pub mod TurnLaws
