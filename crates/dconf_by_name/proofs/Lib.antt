pub mod PathFaults
pub mod Directories
