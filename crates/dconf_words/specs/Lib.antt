pub mod Texts
pub mod Words
pub mod Refusals
pub mod Explanations
pub mod Hearing
