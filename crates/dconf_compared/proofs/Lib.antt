pub mod BadPaths
pub mod SearchedLocks
