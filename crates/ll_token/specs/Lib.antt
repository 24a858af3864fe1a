pub mod Bytes
pub mod Names
pub mod Lexemes
pub mod Scan
pub mod Reading
