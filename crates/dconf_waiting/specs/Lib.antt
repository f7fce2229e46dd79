pub mod Newest
pub mod Fates
pub mod Patiences
pub mod Dues
pub mod Faults
pub mod Fresh
pub mod WaitingLaws
pub mod Batches
