pub mod Bits
pub mod Bitwise
