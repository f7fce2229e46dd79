pub mod Tables
pub mod Lookups
