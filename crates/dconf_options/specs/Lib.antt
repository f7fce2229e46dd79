pub mod Words
pub mod Options
pub mod OptionLaws
pub mod Placings
pub mod Programs
pub mod Statuses
