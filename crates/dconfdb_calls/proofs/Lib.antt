mod ChangeTurns
mod AfterTurns
mod Mixed
mod LineLaws
mod KeylessLaws
mod SinceLaws
pub mod BelowLaws
