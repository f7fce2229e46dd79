pub mod Appended
pub mod Gathered
pub mod Locks
pub mod Printable
pub mod ToldValues
