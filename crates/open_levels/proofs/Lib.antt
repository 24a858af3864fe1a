mod EndedLaws
mod StackLaws
pub mod AddsLaws
pub mod BoxLaws
mod KeptLaws
mod LevelLaws
mod NumberLaws
mod ShownLaws
