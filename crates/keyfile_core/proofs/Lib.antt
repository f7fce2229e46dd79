pub mod GroupParts
pub mod LineParts
pub mod ReadingLaws
pub mod DumpParts
pub mod DumpTexts
pub mod PairSort
pub mod PlainKeys
