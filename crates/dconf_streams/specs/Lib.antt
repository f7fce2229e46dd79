pub mod Streams
pub mod Transfers
pub mod Counted
pub mod Answers
pub mod Readings
pub mod Inputs
