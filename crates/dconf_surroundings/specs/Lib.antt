pub mod Known
pub mod Names
