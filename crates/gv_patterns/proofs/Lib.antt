pub mod PatternLists
pub mod ExactLaws
pub mod FoundLaws
pub mod Levels
