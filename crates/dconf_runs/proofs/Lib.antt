pub mod Inputs
pub mod Turns
pub mod Crashing
pub mod CountedFiles
pub mod BadTurns
