pub mod NamedLaws
pub mod ShapedLaws
pub mod ListLaws
pub mod SettledLaws
pub mod SameOutside
pub mod KeptLaws
pub mod SpanLaws
