pub mod SeeingLaws
pub mod TellingLaws
pub mod OthersLaws
pub mod TwinsLaws
pub mod SearchLaws
pub mod RelockedLaws
pub mod ChangedLaws
pub mod OwnLaws
