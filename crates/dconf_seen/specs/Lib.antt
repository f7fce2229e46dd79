pub mod Waiting
pub mod Covering
pub mod Reading
pub mod Allowed
