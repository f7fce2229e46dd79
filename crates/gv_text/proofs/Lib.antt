pub mod Quotes
pub mod Figures
pub mod Containers
pub mod ContainerTexts
pub mod ChildTexts
mod ChildCounts
pub mod ArrayTexts
pub mod Levels
pub mod Maybes
mod DefaultTexts
mod RestLaws
mod Copies
