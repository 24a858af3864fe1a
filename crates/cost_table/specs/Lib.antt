pub mod Digits
pub mod Entries
pub mod Lines
pub mod Names
pub mod Table
