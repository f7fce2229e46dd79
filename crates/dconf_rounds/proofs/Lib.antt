pub mod RoundLaws
pub mod SyncLaws
pub mod GlanceLaws
pub mod WriterLaws
pub mod TellLaws
pub mod ReadingLaws
