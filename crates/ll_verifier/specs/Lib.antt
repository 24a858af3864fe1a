pub mod Answer
pub mod Order
pub mod Rules
pub mod Sound
pub mod Tables
