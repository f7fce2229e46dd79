pub mod Lists
pub mod Numbers
pub mod AsciiTexts
pub mod ShortTexts
pub mod TextLemmas
pub mod VariantLemmas
pub mod ByteArrays
pub mod PartLemmas
pub mod ChildPlaces
pub mod TreeParts
pub mod EntryLemmas
pub mod Depths
pub mod PartValues
mod UnplacedParts
pub mod Alike
pub mod BasicCopies
pub mod Copies
