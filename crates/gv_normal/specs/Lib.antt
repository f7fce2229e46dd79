pub mod InPlace
pub mod Tables
