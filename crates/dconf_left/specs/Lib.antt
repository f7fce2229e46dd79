pub mod Numbers
pub mod Records
pub mod Left
pub mod Laws
pub mod Changes
