pub mod SayingLaws
pub mod WordLaws
pub mod FoundLaws
pub mod DifferenceLaws
pub mod AskingLaws
pub mod FastLaws
pub mod MakingLaws
pub mod AboveLaws
