pub mod BitLaws
pub mod DivideLaws
pub mod ModuloLaws
pub mod WrapLaws
