pub mod AnywhereLaws
pub mod EntailmentLaws
pub mod EdgeLaws
pub mod TrailEdgeLaws
pub mod TrailLaws
pub mod BoxLaws
