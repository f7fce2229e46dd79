pub mod Answers
pub mod Compared
pub mod Explained
pub mod Lines
pub mod ReadBack
pub mod Values
