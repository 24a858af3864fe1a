pub mod Formed
pub mod Naming
pub mod Pieces
pub mod Text
pub mod Words
