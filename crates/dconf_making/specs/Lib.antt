pub mod Making
pub mod Endings
pub mod Settling
pub mod Knowing
pub mod Sentences
pub mod Renamings
