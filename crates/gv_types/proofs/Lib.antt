pub mod Letters
pub mod ClassLaws
pub mod Firsts
pub mod MemberLaws
pub mod TypeSteps
mod LetterRuns
pub mod Stops
pub mod Whole
pub mod TypeLists
pub mod Parts
pub mod PathLaws
pub mod PrefixTypes
pub mod NestingLaws
pub mod Splits
pub mod FirstTypes
mod BasicMembers
