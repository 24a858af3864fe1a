pub mod Answer
pub mod Boxes
pub mod Halving
pub mod Search
pub mod Stack
pub mod WholePoint
pub mod Work
