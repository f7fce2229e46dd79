pub mod Everyones
pub mod FoundFolders
pub mod Renamed
pub mod EitherKind
pub mod DconfsLines
pub mod Kinds
