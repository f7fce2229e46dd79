pub mod Begins
pub mod Served
pub mod Calls
pub mod Folders
