pub mod Params
pub mod Pieces
pub mod Drafts
pub mod Values
