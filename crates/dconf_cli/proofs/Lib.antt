pub mod StreamsLeft
pub mod Runs
pub mod Given
pub mod StandingLaws
