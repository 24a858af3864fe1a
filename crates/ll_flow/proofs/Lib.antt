mod FindLaws
mod HomeLaws
mod NamedLaws
mod PathLaws
pub mod PlaceLaws
pub mod SiteLaws
mod UseLaws
