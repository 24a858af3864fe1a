pub mod Code
pub mod LastRun
pub mod Leads
pub mod Place
pub mod Ready
pub mod Slots
pub mod Start
