pub mod Failures
pub mod Staging
pub mod MemoryFolders
pub mod Crashes
pub mod Notes
pub mod SystemCalls
pub mod Asides
