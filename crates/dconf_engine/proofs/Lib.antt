pub mod Opened
pub mod FirstLayer
pub mod TextMapLaws
pub mod UnsavedLaws
pub mod WritingLaws
pub mod SavedLaws
pub mod ClearedLaws
pub mod LeftLaws
