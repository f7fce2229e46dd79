pub mod TransferLaws
pub mod Puts
pub mod Decisions
pub mod ManyFiles
pub mod InputLaws
