pub mod BoundsLaws
pub mod HintsLaws
