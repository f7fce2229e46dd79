pub mod Filled
pub mod Subcommands
pub mod Lines
pub mod Stops
pub mod Told
