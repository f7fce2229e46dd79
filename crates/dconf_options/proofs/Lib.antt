pub mod OptionProofs
pub mod ProgramProofs
pub mod StatusProofs
