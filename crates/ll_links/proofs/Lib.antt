mod BesideLaws
pub mod ItemLaws
mod KindLaws
mod LinkLaws
