pub mod Verdicts
pub mod SoundTables
pub mod LayerSettings
pub mod LayerRows
pub mod Entries
pub mod TextSets
pub mod Children
