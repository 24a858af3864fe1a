pub mod Bounded
pub mod Choice
pub mod Lists
pub mod Pieces
