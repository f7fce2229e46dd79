pub mod TableLaws
pub mod PatienceLaws
pub mod FaultLaws
pub mod WrongMachines
pub mod FateLaws
pub mod BatchLaws
