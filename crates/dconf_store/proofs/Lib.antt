pub mod Applied
pub mod SeenLaws
pub mod ChangesMade
pub mod ReplacedFiles
