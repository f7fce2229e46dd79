pub mod Findings
pub mod Kinds
pub mod Readings
pub mod Refused
pub mod Strings
