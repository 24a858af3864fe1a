pub mod Complete
pub mod Draft
pub mod Fault
pub mod Laws
pub mod Lines
pub mod Ranges
pub mod Spells
pub mod Text
