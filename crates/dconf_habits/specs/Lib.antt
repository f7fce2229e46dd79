pub mod Resets
pub mod Typed
pub mod Updates
