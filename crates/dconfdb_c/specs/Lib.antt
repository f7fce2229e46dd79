pub mod Own
pub mod Variants
