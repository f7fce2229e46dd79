pub mod Rounds
pub mod Syncs
pub mod Glances
pub mod Telling
pub mod Writers
pub mod Reading
pub mod Backends
