pub mod Numbers
pub mod AppendedBytes
pub mod NameWalks
pub mod SameEnds
