pub mod Heads
pub mod Mending
pub mod Profiles
