pub mod EndingLaws
pub mod MakingLaws
pub mod SettlingLaws
pub mod KnowingLaws
