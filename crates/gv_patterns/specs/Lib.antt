pub mod BasicSets
pub mod Forms
pub mod Parts
pub mod Codes
pub mod Falls
pub mod Orders
pub mod LeastTexts
