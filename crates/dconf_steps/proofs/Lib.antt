pub mod LookProofs
pub mod EditLaws
pub mod QueueProofs
pub mod NoticeProofs
pub mod WrongMachines
