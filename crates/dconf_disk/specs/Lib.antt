pub mod StdFolders
pub mod Driving
pub mod LockFaults
