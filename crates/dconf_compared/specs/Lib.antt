pub mod Compared
pub mod Undumpable
pub mod Rows
