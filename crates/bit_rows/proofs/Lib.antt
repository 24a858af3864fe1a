pub mod BitsLaws
pub mod BitwiseLaws
mod CalmLaws
pub mod LayingLaws
pub mod RowLaws
