pub mod Brought
pub mod Entries
pub mod Errnos
pub mod Faults
pub mod Answers
pub mod Standings
