pub mod Types
pub mod Seeing
pub mod Telling
pub mod Relocking
pub mod Files
pub mod Changed
pub mod Own
