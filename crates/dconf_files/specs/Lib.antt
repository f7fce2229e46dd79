pub mod Stamps
pub mod Courses
pub mod Owners
pub mod Locks
pub mod Handings
