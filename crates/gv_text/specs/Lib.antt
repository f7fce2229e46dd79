pub mod Printing
pub mod Defaults
