pub mod KeptLaws
pub mod WayLaws
pub mod ValueLaws
pub mod WalkLaws
