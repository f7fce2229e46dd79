pub mod Waits
pub mod WaitLaws
pub mod WaitRecords
pub mod Takings
pub mod TakingLaws
