pub mod Times
pub mod Leaving
pub mod Moments
pub mod Resets
pub mod Room
pub mod Seeing
pub mod Noted
pub mod Turns
