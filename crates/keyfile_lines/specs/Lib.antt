pub mod Answers
pub mod Cursors
pub mod Kinds
pub mod Laws
pub mod Lines
pub mod Sayings
pub mod Told
pub mod Words
