pub mod SeenLaws
pub mod CoveringLaws
pub mod ReadingLaws
pub mod AllowedLaws
