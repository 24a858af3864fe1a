pub mod Items
pub mod Links
pub mod Table
