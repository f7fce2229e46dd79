pub mod Changes
pub mod Faults
pub mod Files
pub mod Seen
