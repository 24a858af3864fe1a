pub mod Known
pub mod Owners
pub mod Pieces
pub mod Ready
