pub mod DumpRows
pub mod Feeds
pub mod KeyfileFaults
pub mod LineMeanings
pub mod Readings
pub mod Rows
pub mod RowsFaults
pub mod SchemaKeys
