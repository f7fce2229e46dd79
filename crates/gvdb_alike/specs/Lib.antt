pub mod NamesAlike
pub mod ItemsAlike
pub mod ValuesAlike
pub mod Spans
pub mod SameBytes
