pub mod CommandLine
pub mod Taken
pub mod Asked
