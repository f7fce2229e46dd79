pub mod HashFours
pub mod HashLaneLaws
