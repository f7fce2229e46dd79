pub mod Rows
pub mod Differences
pub mod Above
pub mod Asking
pub mod Fast
pub mod Making
pub mod Saying
