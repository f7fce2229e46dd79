pub mod Places
pub mod ProfileSteps
pub mod Told
pub mod Numbers
pub mod PlaceLaws
