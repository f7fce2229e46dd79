pub mod WaitProofs
pub mod WrongWaits
pub mod TakingProofs
