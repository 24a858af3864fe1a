pub mod Adds
pub mod Flat
pub mod Kept
pub mod Marks
pub mod Shown
pub mod Stack
