pub mod Paths
pub mod PlainBytes
pub mod Faults
pub mod Profiles
