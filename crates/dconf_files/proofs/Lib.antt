pub mod SameLaws
pub mod OwnerLaws
pub mod LockLaws
pub mod HandingLaws
