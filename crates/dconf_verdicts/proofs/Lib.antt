pub mod VerdictLaws
pub mod AnswerLaws
pub mod BroughtLaws
pub mod StandingLaws
