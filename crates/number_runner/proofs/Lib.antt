mod BiasLaws
mod LeaveLaws
mod LowerLaws
mod MaskLaws
mod NumberLaws
mod PlaceLaws
mod RunLaws
mod StepLaws
