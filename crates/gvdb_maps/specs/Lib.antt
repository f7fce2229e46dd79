pub mod Maps
pub mod PathsLeft
pub mod Limits
pub mod PlanWords
pub mod ItemOrder
pub mod WrittenParts
pub mod LayoutParts
pub mod PlannedTables
