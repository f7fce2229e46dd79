pub mod Names
pub mod Events
pub mod Flags
pub mod Inotify
pub mod Numbers
pub mod Rounds
pub mod WatchLaws
