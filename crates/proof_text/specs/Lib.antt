pub mod Digits
pub mod Line
pub mod Literal
pub mod Number
pub mod Reading
pub mod Words
