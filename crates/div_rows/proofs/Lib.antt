pub mod AbsLaws
pub mod DivisionLaws
pub mod ExtremeLaws
pub mod PassedLaws
pub mod SignedDivisionLaws
pub mod SignedLaws
pub mod UnlessLaws
pub mod UnsignedDivisionLaws
