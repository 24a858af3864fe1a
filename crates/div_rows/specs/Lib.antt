pub mod Abs
pub mod Division
pub mod Extreme
pub mod SignedDivision
pub mod Unless
pub mod UnsignedDivision
