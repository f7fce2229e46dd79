pub mod Numbers
pub mod Texts
pub mod Parts
pub mod Parsed
pub mod Listing
pub mod Order
pub mod OpenArrays
