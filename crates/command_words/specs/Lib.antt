pub mod Commands
pub mod Replaced
pub mod Updates
