pub mod BlocksLaws
mod RunLaws
