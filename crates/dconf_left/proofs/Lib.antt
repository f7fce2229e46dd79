pub mod NumberLaws
pub mod RecordLaws
pub mod FrontLaws
pub mod StateLaws
