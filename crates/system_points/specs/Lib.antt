pub mod Places
pub mod Encodes
