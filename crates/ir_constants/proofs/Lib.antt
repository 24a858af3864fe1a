mod AddLaws
pub mod ConstantLaws
mod CountLaws
