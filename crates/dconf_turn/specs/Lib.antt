pub mod Jobs
pub mod Steps
pub mod Hosts
pub mod Sayings
pub mod Progress
pub mod Histories
pub mod Records
pub mod Survivals
