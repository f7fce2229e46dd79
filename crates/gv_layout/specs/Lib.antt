pub mod Letters
pub mod Bodies
pub mod Places
pub mod TypesAt
