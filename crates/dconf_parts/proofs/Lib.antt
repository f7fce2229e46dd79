pub mod MovingLaws
pub mod PartLaws
pub mod SeveralLaws
