pub mod Views
pub mod Texts
pub mod Variants
pub mod Children
pub mod Dictionaries
pub mod Copying
pub mod Laws
