pub mod Homes
pub mod Sought
pub mod Told
pub mod Numbers
pub mod Looks
pub mod HomeLaws
