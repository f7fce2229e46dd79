pub mod StoreReads
pub mod Stores
pub mod Dumps
pub mod Refusals
pub mod Loads
pub mod Below
