pub mod KindLaws
pub mod ReadingLaws
pub mod RefusedLaws
pub mod StringLaws
pub mod WantedLaws
