mod BoundLaws
mod EndLaws
mod FollowLaws
mod FormLaws
mod ItemLaws
pub mod ParamLaws
mod RangeLaws
pub mod SpotLaws
mod StepLaws
mod WholeLaws
