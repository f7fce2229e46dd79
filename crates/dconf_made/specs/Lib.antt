pub mod Made
pub mod Needs
pub mod Courses
