mod AddLaws
mod CombinedLaws
mod SettleLaws
mod StepLaws
