pub mod Outputs
pub mod Endings
pub mod Runs
