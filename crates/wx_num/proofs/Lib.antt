pub mod FloorLaws
pub mod DivisorLaws
