pub mod Added
pub mod CompileFaults
pub mod LineStops
pub mod Loading
pub mod PathedRows
pub mod Sources
