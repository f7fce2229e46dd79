pub mod SameValueLaws
pub mod DifferingLaws
pub mod TwinLaws
