pub mod Cases
pub mod Constants
pub mod First
pub mod Lacking
pub mod Widths
