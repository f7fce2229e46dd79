pub mod Faults
pub mod Opened
pub mod Tables
pub mod Kinds
pub mod ItemRecords
pub mod NameLinks
