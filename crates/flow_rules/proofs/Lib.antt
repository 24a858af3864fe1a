pub mod OrderLaws
pub mod PathLaws
pub mod RowLaws
pub mod StoredLaws
